pub mod Promises
pub mod Transfer
