pub mod Numbers
pub mod Commands
pub mod Parser
pub mod Fits
