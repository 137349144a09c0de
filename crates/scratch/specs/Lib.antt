-- In the order in which a newcomer reads them.
pub mod Pairs
pub mod Cut
pub mod Rows
pub mod Level
pub mod Faults
