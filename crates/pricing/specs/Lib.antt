pub mod JoinedSteps
pub mod Priced
