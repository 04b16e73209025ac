mod Quotients
pub mod Signs
