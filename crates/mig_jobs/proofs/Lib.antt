mod StopLaws
mod VacancySteps
pub mod Common
pub mod JobRounds
pub mod TableSteps
pub mod VacancyLaws
