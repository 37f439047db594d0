pub mod Refusals
pub mod Zero
pub mod Entries
pub mod Shown
