pub mod Sections
pub mod Mapping
