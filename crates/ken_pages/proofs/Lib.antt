pub mod Parts
pub mod Flat
pub mod Pages
pub mod Listed
pub mod Counted
pub mod Frozen
pub mod Dirty
pub mod Idle
