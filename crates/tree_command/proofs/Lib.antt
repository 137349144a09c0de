pub mod Spaces
pub mod Remaining
pub mod LastLines
pub mod LeftPairs
pub mod Listings
pub mod Fronts
