pub mod Traces
pub mod Speaking
pub mod Unions
pub mod Verdicts
pub mod Surmise
pub mod Starts
pub mod Orderings
