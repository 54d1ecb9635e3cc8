pub mod Drawn
pub mod Rewrites
pub mod BytesRead
pub mod Changes
pub mod Decisions
pub mod Terms
pub mod Decided
