pub mod Numbers
pub mod Generator
pub mod Fields
