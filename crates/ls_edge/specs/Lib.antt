pub mod Causes
pub mod Files
pub mod Memory
