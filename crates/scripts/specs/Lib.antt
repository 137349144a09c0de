pub mod Calls
pub mod Merging
pub mod Working
pub mod Scripts
