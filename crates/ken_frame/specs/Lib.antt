pub mod Owned
pub mod Shelved
pub mod Written
