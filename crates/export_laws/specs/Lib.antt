-- In the order in which a newcomer reads them.
pub mod SignedCars
pub mod Laws
