pub mod Premium
pub mod Sums
pub mod Valued
pub mod Steps
