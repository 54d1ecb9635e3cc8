pub mod Overlay
pub mod Sides
pub mod Covers
pub mod Laws
