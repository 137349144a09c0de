pub mod Powers
pub mod Readings
pub mod ItemByItem
pub mod Spelled
pub mod Passed
