pub mod Promises
pub mod Runs
pub mod Unit
