pub mod Factor
pub mod Promises
