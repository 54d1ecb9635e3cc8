pub mod Paged
pub mod Layout
