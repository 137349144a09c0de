-- In the order in which a newcomer reads them: what is told and why it isn't, the message, what it means; the message of a
-- batch that isn't accepted yet, and that of a state,
-- with what it says.
pub mod Telling
pub mod Messages
pub mod Laws
pub mod Signed
pub mod Syncs
pub mod SyncLaws
