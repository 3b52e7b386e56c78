pub mod Askings
pub mod HiddenOrders
pub mod Draws
pub mod Drills
pub mod Summaries
