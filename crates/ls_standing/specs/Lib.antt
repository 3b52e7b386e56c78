pub mod Starts
pub mod Standing
pub mod QueryOrders
