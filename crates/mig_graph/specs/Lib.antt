pub mod Edges
pub mod Ends
pub mod Graphs
pub mod Kept
pub mod Loads
