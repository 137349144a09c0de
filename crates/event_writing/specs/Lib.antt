-- In the order in which a newcomer reads them: what code's values stand for; a message in the steps of the code; blocks that are
-- put into a file; the message of a state.
pub mod Views
pub mod Steps
pub mod Putting
pub mod Sources
pub mod Syncing
pub mod Signing
