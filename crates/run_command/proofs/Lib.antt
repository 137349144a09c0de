pub mod Adding
pub mod Seats
pub mod Ending
pub mod Mapped
pub mod Digits
pub mod Parts
pub mod Remaining
pub mod Pushing
