pub mod Counts
pub mod Faults
pub mod SpotSets
pub mod Start
pub mod Tables
pub mod Parts
