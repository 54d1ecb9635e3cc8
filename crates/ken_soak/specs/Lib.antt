pub mod Totals
pub mod Soaking
pub mod Tormenting
