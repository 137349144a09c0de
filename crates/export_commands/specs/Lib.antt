-- In the order in which a newcomer reads them.
pub mod Texts
pub mod Faults
pub mod Names
pub mod Views
pub mod Outcomes
pub mod Words
