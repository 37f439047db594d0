pub mod Promises
pub mod Running
