pub mod Bytes
pub mod Causes
pub mod Story
pub mod Moments
pub mod Fates
pub mod Steps
pub mod Writes
pub mod Through
