pub mod Lines
pub mod MadeBytes
