pub mod Lines
pub mod Printed
pub mod First
