pub mod Texts
pub mod Meanings
pub mod Domains
