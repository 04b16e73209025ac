pub mod Levels
pub mod Tariffs
pub mod SheetFunds
pub mod CutSheets
pub mod ExactRows
