pub mod Openable
pub mod Creating
pub mod Refused
pub mod Opened
pub mod Steps
