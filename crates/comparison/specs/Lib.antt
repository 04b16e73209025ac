pub mod Exact
pub mod Comparison
pub mod Steps
