pub mod Rooms
pub mod Names
pub mod SetTexts
