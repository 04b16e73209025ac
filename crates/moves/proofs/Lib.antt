pub mod Lines
pub mod GrossExcess
pub mod FiguresRange
