-- In the order in which a newcomer reads them.
pub mod Records
pub mod Views
pub mod Names
pub mod Options
