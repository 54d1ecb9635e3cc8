pub mod Crosses
pub mod Lends
pub mod Owns
pub mod Written
