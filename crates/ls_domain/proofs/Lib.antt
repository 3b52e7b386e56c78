mod Vocabulary
pub mod Numbers
pub mod NamedSets
pub mod Rows
pub mod Readings
mod Records
mod Joins
