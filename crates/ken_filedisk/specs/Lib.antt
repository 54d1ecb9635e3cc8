pub mod Breaks
pub mod Opened
