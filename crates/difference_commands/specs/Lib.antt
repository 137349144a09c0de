-- In the order in which a newcomer reads them.
pub mod Forms
pub mod Views
pub mod RecordLines
pub mod Files
pub mod Texts
pub mod Slices
pub mod Trees
pub mod Faults
pub mod Outcomes
pub mod Words
