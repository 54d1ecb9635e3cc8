pub mod Mounts
pub mod Layout
pub mod Seals
pub mod Opening
pub mod Settled
pub mod Formats
pub mod Mounting
pub mod Calls
