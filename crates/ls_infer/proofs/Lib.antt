mod Vocabulary
mod Places
mod Kept
mod Outside
mod Told
mod Questions
mod Sharing
mod States
mod Witnessing
pub mod KeptStates
pub mod Changes
mod Standing
mod Closing
mod Searching
pub mod Looking
pub mod Least
pub mod WithinFamily
