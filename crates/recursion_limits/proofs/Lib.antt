pub mod PartialSums
pub mod TestedLimits
