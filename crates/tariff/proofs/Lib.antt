pub mod GrossAnswers
mod WithBound
mod Parts
