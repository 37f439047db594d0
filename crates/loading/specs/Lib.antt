pub mod Loading
pub mod Promises
