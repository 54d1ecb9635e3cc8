pub mod Dashes
pub mod Walks
pub mod Leaves
pub mod Entered
pub mod Asked
pub mod Ranges
