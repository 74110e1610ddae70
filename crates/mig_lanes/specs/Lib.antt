pub mod LaneSteps
pub mod Runs
