pub mod HostSaves
pub mod MemSaves
pub mod Saves
pub mod Streams
