-- Tests, and what a reading took of its input.
pub mod Bools
pub mod Taking
-- Formats.
pub mod HeadLaws
pub mod VarintLaws
pub mod DagCborLaws
pub mod DagCborTakes
pub mod CidTexts
pub mod LinkCids
-- Trees and their nodes.
pub mod LayerLaws
pub mod TreeLaws
pub mod LayeredTrees
pub mod NodeLaws
pub mod NodeTakes
pub mod NodeValues
pub mod TreeNodes
pub mod SameTree
-- Blocks, roots and paths.
pub mod BlockLaws
pub mod RootLaws
pub mod Once
pub mod PathPlace
pub mod PathNodes
pub mod VerifyLaws
-- Files of blocks.
pub mod CarLaws
-- Writes.
pub mod WriteLaws
pub mod BatchLaws
pub mod RecordPairs
pub mod BatchSteps
-- Repositories.
pub mod RepositoryBlocks
pub mod StampLaws
pub mod StateLaws
pub mod CommitLaws
-- Worked rows.
mod rows
