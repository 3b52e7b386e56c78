mod Vocabulary
pub mod AnswerLists
pub mod Ruling
mod Saving
pub mod FewerRules
