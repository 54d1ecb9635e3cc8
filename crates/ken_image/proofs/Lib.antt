pub mod Kept
pub mod Changes
pub mod Called
pub mod Filled
