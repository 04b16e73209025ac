pub mod Pieces
pub mod ListingSizes
pub mod Range
pub mod Level
