mod Vocabulary
pub mod Alone
pub mod Indexing
pub mod Rounds
pub mod Begun
pub mod Over
pub mod Reaching
pub mod Following
pub mod Barred
