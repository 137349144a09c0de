pub mod Texts
pub mod Lawful
pub mod ReadBack
