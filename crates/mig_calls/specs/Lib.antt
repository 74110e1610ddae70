pub mod Places
pub mod SamePlaces
pub mod Files
pub mod Refusals
pub mod FileBytes
pub mod MemFiles
pub mod Memory
