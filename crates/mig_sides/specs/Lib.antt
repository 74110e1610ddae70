pub mod Climbs
pub mod Neighbours
pub mod Reaching
pub mod Searches
pub mod Trees
pub mod Walks
