pub mod Turns
pub mod Interviews
