pub mod Slices
pub mod Recursion
pub mod Places
pub mod Steps
