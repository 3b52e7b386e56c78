mod Vocabulary
pub mod Growths
pub mod PathOrder
pub mod Levels
pub mod Added
mod Written
mod Walks
mod Padding
