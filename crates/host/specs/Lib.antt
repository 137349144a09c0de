pub mod Opening
pub mod Views
pub mod Fitting
pub mod Seeing
pub mod Rooting
pub mod Versions
pub mod Telling
