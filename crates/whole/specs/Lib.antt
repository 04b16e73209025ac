pub mod Sign
pub mod Sums
