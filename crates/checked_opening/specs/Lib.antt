-- In the order in which a newcomer reads them.
pub mod Opening
pub mod Refusals
pub mod Laws
