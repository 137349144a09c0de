-- In the order in which a newcomer reads them.
pub mod Between
pub mod Spans
pub mod Lent
