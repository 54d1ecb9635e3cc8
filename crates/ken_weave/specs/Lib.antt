pub mod Workers
pub mod Orders
pub mod Laws
pub mod Crossing
