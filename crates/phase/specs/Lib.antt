pub mod Ending
pub mod Promises
pub mod Times
