pub mod Finding
pub mod Going
