mod Grids
pub mod MadeInput
pub mod MadeLists
pub mod MadeNames
pub mod MadeRoom
pub mod Common
