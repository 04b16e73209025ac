pub mod Laws
pub mod Rest
pub mod Word
pub mod Product
mod Units
