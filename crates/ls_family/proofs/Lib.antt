mod Vocabulary
pub mod Examples
pub mod Fitting
pub mod FoundSets
pub mod Parts
pub mod Rows
pub mod Words
