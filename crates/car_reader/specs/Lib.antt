pub mod Views
pub mod Maps
