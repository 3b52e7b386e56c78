mod Vocabulary
pub mod Saying
pub mod LineBytes
mod Parts
mod Groups
mod Digits
pub mod Quotes
pub mod NameOrder
