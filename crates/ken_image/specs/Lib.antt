pub mod Calls
pub mod Pages
pub mod Faults
pub mod Whole
