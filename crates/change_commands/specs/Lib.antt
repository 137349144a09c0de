pub mod Stories
pub mod Told
pub mod Directions
pub mod Texts
pub mod Views
pub mod Commands
pub mod Words
