pub mod BoardFields
pub mod Colouring
pub mod Entries
pub mod EntryFields
pub mod Growth
pub mod TableFields
pub mod Walk
pub mod Words
