pub mod Faults
pub mod Filing
pub mod Copies
pub mod Held
pub mod Memory
