pub mod Steps
pub mod Told
pub mod Held
pub mod Saved
