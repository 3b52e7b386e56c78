pub mod Tables
pub mod Forced
pub mod Changes
pub mod BlockClosures
pub mod Search
pub mod Narrowing
