pub mod Causes
pub mod Receivers
pub mod Showing
