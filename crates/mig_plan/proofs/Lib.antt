pub mod Least
pub mod Limits
pub mod RowLaws
pub mod SlotLaws
pub mod TargetSteps
pub mod LoweredLimits
pub mod TwoSides
pub mod Common
