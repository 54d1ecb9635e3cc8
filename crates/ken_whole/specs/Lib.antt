pub mod Paced
pub mod Whole
pub mod WholeLaws
pub mod TurnLaws
pub mod KindLaws
pub mod NewLaws
pub mod New
