-- In the order in which a newcomer reads them: what is done where a message is followed, and why it isn't.
pub mod Following
pub mod Refusals
