pub mod Bounded
pub mod ShownListing
pub mod Level
pub mod ShownAsked
