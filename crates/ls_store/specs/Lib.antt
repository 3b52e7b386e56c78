pub mod Chains
pub mod Stored
