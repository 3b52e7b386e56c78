mod Examples
mod Parsed
mod Counted
