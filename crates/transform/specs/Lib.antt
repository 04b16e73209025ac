pub mod Filling
pub mod Transformed
