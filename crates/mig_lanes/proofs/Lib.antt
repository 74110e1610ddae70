mod Answering
mod Beginning
mod Carrying
mod CarryingOn
mod Closing
mod Keeping
mod Limiting
mod RoundCopies
mod Rounding
mod SeenRounds
mod Staying
pub mod Common
pub mod EventSteps
pub mod RoundLists
pub mod RunKeeps
pub mod RunLaws
