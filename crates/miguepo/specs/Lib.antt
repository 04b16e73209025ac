pub mod Bits
pub mod Host
