pub mod LeastSets
pub mod Walks
pub mod Spans
pub mod Families
pub mod Forced
