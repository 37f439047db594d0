pub mod Rows
pub mod Bounds
pub mod Ones
pub mod Exact
