mod Vocabulary
pub mod Joined
pub mod Past
pub mod Rises
pub mod Moves
pub mod Followed
pub mod Answered
pub mod Taken
pub mod Pieces
pub mod Scripts
pub mod Taking
pub mod Input
mod Numbers
pub mod Fetched
pub mod Whole
pub mod Asked
