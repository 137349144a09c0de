pub mod Spelling
pub mod CommitLaws
pub mod Values
