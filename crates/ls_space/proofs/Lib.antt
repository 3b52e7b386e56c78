mod Vocabulary
pub mod Adding
pub mod Judging
pub mod Passing
pub mod Testing
pub mod Together
