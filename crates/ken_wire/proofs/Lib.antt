mod Senders
mod Lists
mod Honest
mod Aimed
mod Wires
mod ByNode
mod Whole
mod Calls
pub mod Came
mod Counted
pub mod Steps
