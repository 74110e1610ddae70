pub mod SaveSteps
pub mod Common
