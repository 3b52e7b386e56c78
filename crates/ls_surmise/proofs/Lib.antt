mod Vocabulary
mod OfBases
mod Printed
mod SurmiseValues
mod ReadBack
mod Firsts
mod Walks
mod Names
mod Tables
mod Orderings
pub mod Files
mod FaultItems
mod Examples
mod TextExamples
mod Jumps
mod Apart
