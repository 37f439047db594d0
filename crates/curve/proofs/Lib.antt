pub mod Points
pub mod Times
pub mod Joined
pub mod Cases
