pub mod Skilled
pub mod Dual
mod Members
mod Lowering
mod Paged
mod TextOrder
mod Gathered
mod Entries
mod Made
mod Tables
mod OfBases
mod Numbers
mod Printed
mod ReadBack
