pub mod Systems
pub mod Untold
