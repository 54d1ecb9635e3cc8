pub mod Lists
pub mod Beside
pub mod Weave
pub mod Crossing
pub mod Keeping
