pub mod Copies
pub mod Dealing
pub mod Decks
pub mod Sharing
