pub mod Padded
pub mod Left
pub mod Growths
pub mod Levels
