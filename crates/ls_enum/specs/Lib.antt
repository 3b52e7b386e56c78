pub mod Widest
pub mod Listings
