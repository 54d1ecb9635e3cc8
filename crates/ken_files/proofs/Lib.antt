pub mod Apart
pub mod Pieces
