mod Vocabulary
pub mod Decided
pub mod Fetched
mod TwoFetched
mod Cursors
mod Stored
mod Meant
mod FilesShown
mod SafeShown
pub mod Sayable
