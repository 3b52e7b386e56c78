mod Vocabulary
pub mod Bars
pub mod Chosen
pub mod Lines
pub mod Told
