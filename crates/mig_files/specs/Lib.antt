pub mod Counting
pub mod Derived
pub mod Grounds
pub mod Tracking
pub mod Serving
pub mod Sights
pub mod Seeing
pub mod Tasks
