mod Examples
mod ExamplesClasses
mod ExamplesPairs
mod ExamplesSkills
pub mod Texts
pub mod CodecLaws
pub mod PutMembers
pub mod RowTables
