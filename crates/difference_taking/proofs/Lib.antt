pub mod Batches
pub mod Having
pub mod Finding
pub mod Leading
pub mod Good
pub mod Passing
pub mod Taken
