pub mod Again
pub mod Fixed
