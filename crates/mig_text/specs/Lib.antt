pub mod Digits
pub mod Finding
pub mod Lengths
pub mod PlanParts
pub mod Prints
pub mod Reads
