pub mod Mapping
pub mod Stepping
pub mod Walking
pub mod NodeLaws
