pub mod Statuses
pub mod Faults
pub mod Progress
pub mod Runs
pub mod Scripts
pub mod Named
