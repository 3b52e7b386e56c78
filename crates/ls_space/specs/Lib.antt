pub mod NextSets
pub mod Together
