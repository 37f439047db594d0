pub mod All
pub mod Fixed
pub mod Rounding
pub mod Steps
pub mod Tested
pub mod Cells
pub mod Turns
pub mod Walk
