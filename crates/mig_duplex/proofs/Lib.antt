pub mod Common
pub mod Quotients
pub mod Spread
