pub mod Gross
