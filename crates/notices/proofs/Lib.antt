pub mod Filters
pub mod Sums
pub mod Moves
pub mod Once
pub mod Told
