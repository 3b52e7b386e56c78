pub mod Gains
pub mod Bases
pub mod Followed
pub mod Trail
pub mod Groups
pub mod Sizes
