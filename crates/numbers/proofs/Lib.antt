pub mod Numbers
pub mod Entries
pub mod Stored
pub mod Again
pub mod Made
