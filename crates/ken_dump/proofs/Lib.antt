mod Apart
pub mod Counts
mod Dumps
mod Out
mod Refused
