pub mod Actions
pub mod Events
pub mod Orders
pub mod Replies
pub mod Scripts
pub mod Sessions
pub mod Underways
