pub mod BoundWords
pub mod CertLengths
pub mod CertPlaces
pub mod CertReads
pub mod MemberLists
pub mod Printed
pub mod Common
