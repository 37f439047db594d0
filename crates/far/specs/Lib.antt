pub mod Far
pub mod Promises
pub mod Cases
