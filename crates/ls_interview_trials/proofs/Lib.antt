pub mod Weighable
