pub mod Printed
pub mod Input
