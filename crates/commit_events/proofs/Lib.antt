pub mod Inserting
pub mod Seen
pub mod Steps
pub mod Shown
pub mod Named
