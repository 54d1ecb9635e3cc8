pub mod Past
pub mod Sends
pub mod Resumed
