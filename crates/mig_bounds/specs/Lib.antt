pub mod Components
pub mod Labels
pub mod Pairs
pub mod Search
pub mod Sides
