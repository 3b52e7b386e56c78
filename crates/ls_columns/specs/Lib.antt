pub mod Places
pub mod Falling
pub mod Rounds
