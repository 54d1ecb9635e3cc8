pub mod Calls
pub mod Picks
pub mod Disks
pub mod Platters
pub mod Traces
pub mod Marks
