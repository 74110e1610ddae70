pub mod Growing
pub mod Left
pub mod Open
pub mod Step
pub mod Common
