mod Vocabulary
pub mod WrittenSettings
pub mod WrittenStarts
pub mod WrittenAnswers
pub mod WrittenPupils
pub mod RoundTrip
mod Examples
pub mod Walks
pub mod Inverse
pub mod Sound
pub mod Surmises
pub mod Read
pub mod BaseStarts
pub mod ClauseStarts
pub mod BlockSizes
pub mod ApartQueries
