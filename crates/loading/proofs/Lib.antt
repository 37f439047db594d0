pub mod Promised
pub mod Fixed
