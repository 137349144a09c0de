pub mod Telling
pub mod Following
pub mod ChangedKeys
pub mod Shown
pub mod BatchTexts
pub mod Rooting
