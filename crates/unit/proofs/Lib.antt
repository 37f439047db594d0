pub mod Fit
pub mod Fixed
pub mod Kept
pub mod Loads
pub mod Refused
