pub mod Versions
pub mod Spelling
pub mod Grammar
pub mod Reading
pub mod Items
pub mod Appending
pub mod Turns
pub mod Held
