pub mod Tally
pub mod Settling
pub mod Counts
pub mod Headline
