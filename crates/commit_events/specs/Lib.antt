pub mod Order
pub mod Views
pub mod Steps
pub mod Reading
