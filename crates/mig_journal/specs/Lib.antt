pub mod FreshJournals
pub mod SeenJournals
