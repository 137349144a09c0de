pub mod Putting
pub mod Listing
pub mod Repositories
pub mod Endings
pub mod Making
