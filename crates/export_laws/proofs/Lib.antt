pub mod OfOne
mod NoOrder
pub mod LeftRecords
pub mod ShortBlocks
pub mod LastStamps
pub mod SignedCars
mod NoFault
