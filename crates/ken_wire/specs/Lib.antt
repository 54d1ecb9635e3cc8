pub mod Views
pub mod Rule
pub mod Aims
pub mod Ends
pub mod Nets
pub mod NetLaws
pub mod Rounds
