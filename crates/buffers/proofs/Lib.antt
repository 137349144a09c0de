mod Cutting
pub mod Beside
pub mod Behind
