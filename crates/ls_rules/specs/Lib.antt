pub mod Ruled
pub mod Parts
pub mod Places
pub mod Sets
pub mod Followers
pub mod Singles
pub mod Waking
pub mod Barring
