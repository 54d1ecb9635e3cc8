pub mod Decided
pub mod Playing
pub mod Actors
pub mod Held
pub mod Nodes
pub mod Letters
pub mod Next
