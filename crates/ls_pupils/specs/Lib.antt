pub mod Own
pub mod Cases
pub mod Beginning
