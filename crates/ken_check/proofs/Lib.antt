mod Splits
mod Read
mod Once
mod Schedules
mod Fronts
pub mod Reports
mod Runs
pub mod Wording
pub mod Pieces
pub mod Naming
mod More
mod LastEmission
mod LastRestart
mod LineWords
mod Hearing
mod Kept
mod KnowsEmission
mod KnowsRestart
mod Beyond
mod Ended
pub mod Turning
pub mod Starting
mod Counting
pub mod Reading
