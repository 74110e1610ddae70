pub mod Causes
pub mod PlanStates
pub mod Progress
pub mod Spares
