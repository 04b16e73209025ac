pub mod Demands
pub mod Steps
pub mod Listing
pub mod Calls
pub mod Sheets
pub mod WrittenOut
pub mod Comparison
