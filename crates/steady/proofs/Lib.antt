pub mod Fixed
pub mod Still
