mod Vocabulary
mod Ruling
pub mod Holding
mod Asking
pub mod Taking
pub mod Retracting
mod Saving
pub mod Spaces
