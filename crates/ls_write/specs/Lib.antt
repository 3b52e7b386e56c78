pub mod SurmiseTexts
pub mod SkillTexts
pub mod Paths
pub mod Showing
