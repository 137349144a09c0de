pub mod Merged
pub mod Runs
pub mod Parts
pub mod Called
