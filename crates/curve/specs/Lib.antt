pub mod Curve
pub mod Cases
pub mod Promises
