pub mod Values
pub mod Tests
pub use Rattle.block.specs.declared.write.Write
pub mod Names
