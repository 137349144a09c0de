pub mod Lists
pub mod Ascending
pub mod Testing
