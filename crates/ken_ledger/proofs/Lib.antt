pub mod Payments
pub mod Drawn
