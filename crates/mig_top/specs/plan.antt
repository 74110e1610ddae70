pub mod Leaves
pub mod Promise
pub mod Texts
