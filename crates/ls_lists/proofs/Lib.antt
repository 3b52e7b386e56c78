mod Vocabulary
pub mod Bools
pub mod Options
pub mod Every
pub mod Filters
pub mod Finds
pub mod Elements
pub mod Sorted
pub mod Places
pub mod Overwriting
pub mod Joins
