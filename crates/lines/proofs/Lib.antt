pub mod Lines
pub mod Said
pub mod Headers
pub mod Parts
