-- In the order in which a newcomer reads them.
pub mod Views
pub mod Parts
pub mod Given
