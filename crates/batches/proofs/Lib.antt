pub mod Committing
pub mod LastStamps
