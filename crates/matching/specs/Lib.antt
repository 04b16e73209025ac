pub mod Matching
pub mod Points
