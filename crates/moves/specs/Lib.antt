pub mod Differences
pub mod Move
