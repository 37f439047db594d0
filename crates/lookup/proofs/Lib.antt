pub mod Along
pub mod Fixed
