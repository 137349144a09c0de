pub mod Fault
pub mod Source
pub mod View
pub mod Majors
pub mod Levels
pub mod Refused
pub mod Passed
