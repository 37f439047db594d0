pub mod Fit
pub mod Named
