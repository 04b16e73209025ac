pub mod Bytes
pub mod Taken
pub mod Patterns
pub mod Part
pub mod Plain
pub mod Values
pub mod Quotient
pub mod Ascending
