mod Vocabulary
pub mod Columned
pub mod Asked
pub mod Falls
pub mod Rounds
