pub mod Given
pub mod Trials
pub mod Laws
