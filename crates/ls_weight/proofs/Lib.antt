mod Vocabulary
pub mod Light
pub mod Heavy
pub mod KeptSettings
pub mod SumsBelow
pub mod Passing
pub mod Rowing
pub mod Cells
pub mod Folding
pub mod Marks
pub mod Columned
pub mod Leaders
pub mod Kept
pub mod After
pub mod Replied
pub mod Weighable
