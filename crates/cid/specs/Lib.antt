pub mod Digests
pub mod CidFault
pub mod CidRef
pub mod TestDigests
