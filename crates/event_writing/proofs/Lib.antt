-- In the order in which they are best read: operations one after the other; blocks that are put; what a source
-- gives; the file; the whole; the message
-- of a state.
pub mod EachOp
pub mod Puts
pub mod AtSource
pub mod LeftFile
pub mod SameMessage
pub mod WholeMessage
pub mod SyncMessage
pub mod TakenSigned
pub mod Refused
