-- The laws. Each is the contract of an empty function in src, so that it is proved.
pub mod Lookups
pub mod Walks
pub mod Edits
pub mod Sources
pub mod Uses
