pub mod Rows
pub mod Times
pub mod Columns
pub mod Cases
