mod Vocabulary
pub mod Sorted
pub mod Binomials
pub mod BySize
pub mod BlockOrder
pub mod BlockSets
pub mod Steps
pub mod Lasts
pub mod Walks
pub mod Counted
pub mod QuerySets
pub mod Placed
pub mod After
pub mod Passing
pub mod Made
