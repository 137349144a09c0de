-- In the order in which a newcomer reads them.
pub mod Writing
pub mod Taking
pub mod Refusals
pub mod Laws
