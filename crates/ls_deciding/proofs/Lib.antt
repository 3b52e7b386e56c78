mod TwoParts
mod Delineated
mod Answered
mod Opened
mod Vocabulary
pub mod Seen
mod Fetched
mod TwoFetched
mod Trailed
mod BaseAtoms
mod OnBases
mod Spanning
