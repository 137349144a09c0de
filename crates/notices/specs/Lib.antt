pub mod Numbering
pub mod Rule
pub mod Steps
pub mod Views
