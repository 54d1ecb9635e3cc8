pub mod Causes
pub mod Transfers
pub mod Calls
pub mod Memory
