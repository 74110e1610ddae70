pub mod ColourRows
pub mod Coloured
pub mod Cursors
pub mod TakenSlots
