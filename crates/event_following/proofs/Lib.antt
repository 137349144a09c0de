-- In the order in which they are best read: what is done; that no record is missing; what a refusal is.
pub mod Steps
pub mod Records
pub mod Unfollowed
