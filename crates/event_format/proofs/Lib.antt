pub mod Taking
pub mod OpsRead
pub mod Spelling
