mod Vocabulary
mod Headers
mod Marked
mod Rows
mod Kept
pub mod Turns
pub mod Parts
pub mod Lines
