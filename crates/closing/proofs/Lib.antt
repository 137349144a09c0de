pub mod Having
pub mod Tallies
pub mod Entries
pub mod Adding
pub mod Closings
pub mod FromScratch
pub mod Numbers
