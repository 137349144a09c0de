pub mod Filling
pub mod Texts
pub mod Letters
pub mod BigEndian
pub mod Ordering
pub mod Groups
