mod Back
mod Between
mod CrewRan
pub mod Following
mod Kept
mod Mapped
mod Ready
mod Rounding
pub mod Rows
mod Seated
mod Stops
mod Told
mod Went
mod Sent
mod Teams
