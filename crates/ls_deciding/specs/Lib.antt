pub mod Readings
pub mod TwoFiles
pub mod Parts
pub mod Cases
pub mod Changes
pub mod Fetches
pub mod Views
