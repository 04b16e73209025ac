pub mod Lines
pub mod Header
pub mod Row
pub mod Part
