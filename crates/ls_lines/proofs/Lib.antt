mod Vocabulary
pub mod Ascii
pub mod Cutting
pub mod Places
pub mod Choosing
pub mod Counts
pub mod Parted
pub mod Exact
pub mod Apart
pub mod Initials
pub mod Printed
pub mod Recut
pub mod ReadBack
pub mod Examples
