pub mod PieceLaws
pub mod Decimal
pub mod PointedDigits
pub mod NumberSizes
