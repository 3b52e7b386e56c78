pub mod Allowed
pub mod Sums
pub mod Rows
pub mod Weighings
