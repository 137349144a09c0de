-- In the order in which they are best read.
-- ---- keys and lists of pairs
pub mod Orders
pub mod EachPair
pub mod Around
pub mod RecordMaps
pub mod PairsLeft
-- ---- a key's place in the tree of a list, and a look-up of it
pub mod Cut
pub mod Groups
pub mod Places
pub mod Finding
pub mod Tops
pub mod Within
-- ---- which nodes are read, and how many
pub mod Weights
pub mod Counts
pub mod Traces
pub mod Enough
pub mod PathIsRead
pub mod PathReads
-- ---- walks
pub mod WalkPairs
pub mod WalkReads
-- ---- the same from shapes
pub mod ShapeBridges
pub mod DeleteShapes
pub mod TrimShapes
-- ---- the same over a source
pub mod SourceLaws
pub mod DeleteSource
pub mod OverSource
-- ---- which blocks come and go
pub mod Lists
pub mod Changes
pub mod NodesOnce
pub mod BlockChanges
pub mod EditShapes
-- ---- the laws
pub mod LookupTheorems
pub mod WalkRanges
pub mod WalkTheorems
pub mod DeleteReads
-- ---- how often a repository's blocks are used
pub mod RecordCounts
pub mod Using
pub mod BlockSources
pub mod Writing
pub mod StagedBatches
