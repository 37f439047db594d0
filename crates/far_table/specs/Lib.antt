pub mod FarTable
pub mod Promises
