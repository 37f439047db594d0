pub mod Rules
pub mod Promises
