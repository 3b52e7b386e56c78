pub mod Surmises
pub mod Reading
