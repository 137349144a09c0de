pub mod Ahead
pub mod Counted
pub mod Exported
pub mod Finding
pub mod FirstOnes
pub mod Leaving
pub mod Marked
pub mod Numbers
pub mod OneNode
pub mod Paths
pub mod Sectioned
pub mod Shown
pub mod SignedFile
pub mod Singles
pub mod Spelled
pub mod Walked
pub mod WholeFile
mod Full
mod Among
