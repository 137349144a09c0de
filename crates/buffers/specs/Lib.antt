pub mod Framing
pub mod Answers
