pub mod States
pub mod Readings
pub mod Decides
pub mod Standing
