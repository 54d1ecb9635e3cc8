pub mod Objects
pub mod Changes
pub mod Kept
pub mod Walk
pub mod Frames
