mod Vocabulary
pub mod Runs
pub mod Numbers
pub mod Solid
pub mod Rewords
pub mod Cuts
mod LineEnds
mod Examples
