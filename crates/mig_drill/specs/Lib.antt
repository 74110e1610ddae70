pub mod Drills
pub mod Stops
pub mod Stores
pub mod Writes
