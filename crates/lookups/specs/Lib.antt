pub mod Maps
pub mod Nodes
pub mod Steps
pub mod Trees
pub mod Walks
