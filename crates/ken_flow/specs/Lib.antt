pub mod Groups
pub mod Flows
pub mod Laws
pub mod Standstill
pub mod StandstillLaws
pub mod Modest
