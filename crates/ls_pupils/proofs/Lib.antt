mod Vocabulary
pub mod Own
pub mod Named
pub mod Rows
pub mod Keeping
pub mod FewQueries
