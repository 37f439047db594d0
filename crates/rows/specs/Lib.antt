pub mod Table
pub mod Facts
pub mod Marks
pub mod Longest
