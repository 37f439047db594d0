pub mod Tables
pub mod Keys
pub mod Fixed
