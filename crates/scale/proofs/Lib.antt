pub mod Signs
pub mod Places
pub mod Mixes
pub mod Promised
