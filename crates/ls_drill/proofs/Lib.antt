mod Askings
mod Vocabulary
pub mod DrawnPairs
pub mod Chains
pub mod Closures
pub mod Asking
pub mod TurnsTaken
pub mod OneAtom
pub mod CountedQueries
pub mod SettledDrills
pub mod Based
pub mod Summing
mod Examples
