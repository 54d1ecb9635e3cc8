pub mod Bytes
pub mod Newest
pub mod Bases
pub mod Keeps
pub mod Left
