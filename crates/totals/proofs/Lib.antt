pub mod PointSums
mod PointProduct
mod Caps
mod Conjunctions
mod StartProduct
mod TableTotals
pub mod InsideTells
pub mod TestedTotals
