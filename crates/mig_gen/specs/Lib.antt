pub mod ByNumber
pub mod MadeCases
