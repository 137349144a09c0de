pub mod Endings
mod Making
mod Streams
mod Batches
mod Refusals
