pub mod Lines
pub mod Dwell
pub mod Whole
pub mod Ranges
pub mod First
