pub mod Items
pub mod Limits
pub mod Lists
pub mod Objects
pub mod Places
pub mod Stated
pub mod Told
pub mod Within
