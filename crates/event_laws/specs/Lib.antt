-- In the order in which a newcomer reads them: operations, a message and its bytes, what its bytes say, the verdict, the laws;
-- and the other message, of a state.
pub mod Ops
pub mod Events
pub mod Fields
pub mod Reading
pub mod Verdict
pub mod Laws
pub mod Syncs
