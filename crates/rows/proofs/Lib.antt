pub mod NodeReading
pub mod FirstRow
pub mod Keys
pub mod Drafting
pub mod Steps
pub mod Runs
pub mod ReadingOn
