pub mod Ranges
pub mod Images
pub mod Drawn
pub mod Kept
pub mod Caught
pub mod Inserted
