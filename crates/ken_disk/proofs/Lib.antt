pub mod Overwrites
pub mod Images
pub mod Told
pub mod Since
pub mod Made
pub mod Fates
