pub mod ActionLaws
mod OneCopy
mod Places
mod ReplyLaws
pub mod SeenSessions
pub mod SeenSteps
mod StepCounts
mod StepLaws
pub mod WorkCells
pub mod Common
pub mod LoneCopies
pub mod Middle
pub mod ScriptLaws
pub mod SessionLaws
