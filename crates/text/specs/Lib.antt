pub mod Line
pub mod Read
pub mod Digits
pub mod Text
pub mod Write
pub mod Promises
pub mod Lists
pub mod Forms
