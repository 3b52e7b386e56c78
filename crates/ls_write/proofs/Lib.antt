mod Vocabulary
mod Pages
mod SkillQuotes
mod Listed
mod Rows
mod ClauseTexts
mod SkillTexts
mod Atoms
mod Fronts
pub mod Showing
