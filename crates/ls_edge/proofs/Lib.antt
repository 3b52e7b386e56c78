mod Folders
pub mod Known
