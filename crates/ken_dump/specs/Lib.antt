pub mod StateText
pub mod DumpText
pub mod Noting
pub mod Out
pub mod Openings
pub mod Telling
pub mod Dumped
