pub mod Follows
pub mod Faults
