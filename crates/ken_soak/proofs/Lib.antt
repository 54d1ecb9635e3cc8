pub mod Spared
pub mod Summed
pub mod Tormented
pub mod Answered
