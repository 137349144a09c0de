pub mod Tids
pub mod Views
