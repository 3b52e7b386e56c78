mod Vocabulary
pub mod Traces
pub mod Spoken
pub mod SpanningLists
pub mod Unclosed
pub mod Fewer
pub mod Below
pub mod Verdicts
pub mod Spanning
pub mod Places
pub mod Clauses
pub mod Covers
pub mod FamilyClauses
pub mod Flaws
pub mod Lookups
mod Small
mod Examples
pub mod BaseCovers
