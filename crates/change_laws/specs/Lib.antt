-- In the order in which a newcomer reads them: what a change says, what a tree has for a batch, a batch over given blocks, the
-- verdict, its laws, rows of it.
pub mod Told
pub mod Within
pub mod Given
pub mod Verdict
pub mod Laws
pub mod Rows
