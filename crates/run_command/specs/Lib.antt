pub mod Script
pub mod Views
pub mod Report
pub mod Reports
pub mod Draining
pub mod Faults
pub mod Outcomes
pub mod Words
