pub mod Starred
mod Answers
