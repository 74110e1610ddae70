pub mod Following
pub mod Leaves
pub mod Looks
pub mod Promise
pub mod Reads
