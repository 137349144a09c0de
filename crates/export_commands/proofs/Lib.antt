pub mod Writing
pub mod Told
pub mod Endings
