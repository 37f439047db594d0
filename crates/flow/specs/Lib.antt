pub mod Calls
pub mod Cases
pub mod Promises
pub mod Settling
pub mod Tick
