pub mod Commands
pub mod Fitness
pub mod Listed
pub mod Promises
pub mod Shown
pub mod Times
