pub mod Ranges
pub mod Fixed
