pub mod Meshed
pub mod Agreement
pub mod Sides
pub mod Common
pub mod SetParts
pub mod Turns
pub mod Meant
pub mod Joined
