pub mod Turning
pub mod Stepping
pub mod Chaining
pub mod Rows
