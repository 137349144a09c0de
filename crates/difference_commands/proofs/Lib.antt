pub mod RecordLists
pub mod Owning
pub mod Giving
pub mod Finding
pub mod Ascents
pub mod Made
pub mod Endings
