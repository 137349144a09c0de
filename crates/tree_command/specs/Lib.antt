pub mod TreeText
pub mod Fault
pub mod Fronts
pub mod Outcomes
pub mod Words
