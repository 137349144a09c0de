pub mod Exporting
pub mod ChangeProofs
pub mod Preparing
