mod Vocabulary
pub mod Marks
mod Examples
pub mod Refusing
pub mod Effects
mod Kept
mod Looks
