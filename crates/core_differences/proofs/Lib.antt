pub mod Lending
pub mod Spans
