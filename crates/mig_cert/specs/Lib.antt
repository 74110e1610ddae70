pub mod BoundParts
pub mod CertParts
pub mod Lengths
pub mod MemberParts
pub mod Prints
