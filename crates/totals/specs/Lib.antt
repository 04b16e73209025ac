pub mod Table
pub mod Product
pub mod Inside
pub mod Totals
pub mod Tests
