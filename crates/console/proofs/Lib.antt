pub mod Leaving
pub mod Known
pub mod Pushing
