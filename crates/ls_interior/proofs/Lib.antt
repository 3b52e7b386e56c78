mod Firsts
pub mod Chosen
