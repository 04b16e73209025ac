pub mod Writing
pub mod Pointed
