pub mod InRange
mod Tables
