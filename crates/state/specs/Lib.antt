pub mod State
pub mod Promises
