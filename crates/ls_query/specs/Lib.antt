pub mod Blocks
pub mod Moves
pub mod Places
pub mod Walks
