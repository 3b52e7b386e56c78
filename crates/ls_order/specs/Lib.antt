pub mod Orders
pub mod OneEach
pub mod Closing
pub mod Related
pub mod Words
pub mod Reading
pub mod Surmising
