pub mod Ran
pub mod Rounds
pub mod Seating
pub mod Seats
pub mod Teams
pub mod Wires
