pub mod Sides
pub mod Turning
pub mod Families
pub mod Meshed
