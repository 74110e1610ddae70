pub mod InFlight
pub mod Leaves
pub mod Looks
pub mod Promise
