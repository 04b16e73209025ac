pub mod Division
pub mod Rounding
pub mod Word
