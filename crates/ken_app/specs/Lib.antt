pub mod Oracles
pub mod Turning
pub mod Lending
pub mod Limits
pub mod Lines
pub mod Limited
pub mod Laws
