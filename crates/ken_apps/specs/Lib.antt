pub mod Found
pub mod Money
