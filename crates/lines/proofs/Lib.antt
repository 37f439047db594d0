pub mod Bounds
pub mod Promised
pub mod Accepted
pub mod Cases
pub mod Grades
pub mod Long
