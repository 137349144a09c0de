-- What the definitions mean. Each law is the contract of an empty function in src/laws, so that it is proved.
pub mod Heads
pub mod DagCbor
pub mod Cids
pub mod Tree
pub mod Nodes
pub mod Cars
pub mod Clashes
pub mod Roots
pub mod Once
pub mod Writes
pub mod Blocks
pub mod Commits
pub mod SignedCommits
pub mod Exports
pub mod States
pub mod Verifier
