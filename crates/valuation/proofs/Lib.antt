mod WeighedCells
pub mod ValuedInside
mod RefusedTotals
mod OwnLimits
mod SettledCells
mod RunningSums
