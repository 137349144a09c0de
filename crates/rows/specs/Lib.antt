pub mod Entries
pub mod Drafts
pub mod Written
pub mod Codes
pub mod OldNodes
pub mod Begun
