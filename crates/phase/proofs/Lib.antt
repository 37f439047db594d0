pub mod Fit
pub mod Left
pub mod Rest
