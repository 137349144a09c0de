-- In the order in which they are best read: operations; a message's length; what its file gives, and the records among it; what
-- was tested; the law.
pub mod InOrder
pub mod Kept
pub mod Lengths
pub mod Given
pub mod Left
pub mod Parts
pub mod Taken
pub mod SyncSays
