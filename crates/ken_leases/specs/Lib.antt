pub mod Leases
pub mod Found
pub mod Laws
