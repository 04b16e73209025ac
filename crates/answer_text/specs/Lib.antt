pub mod Shown
pub mod Level
pub mod Pieces
