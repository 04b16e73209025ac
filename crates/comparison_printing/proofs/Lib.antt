pub mod LineSizes
pub mod ShownComparison
