pub mod Members
pub mod Alone
pub mod Whole
