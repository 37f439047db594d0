pub mod Scale
pub mod Promises
