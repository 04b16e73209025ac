mod Opposite
mod ProductAdded
mod SumsTo
mod CellsFilled
mod ListedPlaces
mod SmallProduct
pub mod Outcomes
