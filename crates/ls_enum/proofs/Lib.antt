mod Vocabulary
pub mod Filled
pub mod Seeking
pub mod Successors
pub mod Left
pub mod Joined
