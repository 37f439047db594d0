pub mod Promises
pub mod Convert
pub mod Older
