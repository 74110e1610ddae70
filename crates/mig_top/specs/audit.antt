pub mod Promise
pub mod Sights
