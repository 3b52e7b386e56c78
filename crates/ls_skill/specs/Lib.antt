pub mod Duals
pub mod Maps
pub mod Gathering
