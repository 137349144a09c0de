pub mod Testing
pub mod TestedWrites
pub mod Stamping
pub mod Exchanging
pub mod LastPlace
pub mod FailedWrites
pub mod Changing
pub mod Keeping
pub mod Edits
mod SharedRecords
mod Values
pub mod Growing
pub mod Preparing
pub mod Applying
pub mod Telling
pub mod LendingAfter
pub mod Fresh
pub mod Listing
pub mod Lending
pub mod Ended
pub mod Entering
