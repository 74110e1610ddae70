mod ArmingLaws
mod MarksRead
pub mod Steps
pub mod Common
