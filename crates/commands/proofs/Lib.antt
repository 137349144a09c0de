pub mod Asking
pub mod OnFiles
