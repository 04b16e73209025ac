pub mod Lines
pub mod Spelling
pub mod Reading
pub mod Sheets
pub mod Prefix
