pub mod Commands
pub mod Endings
pub mod Outcomes
pub mod Puts
pub mod Words
