pub mod Keeping
pub mod Seats
pub mod Accepting
pub mod Wanting
mod RootLaws
