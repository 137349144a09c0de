pub mod Lanes
pub mod Blocks
pub mod Digests
