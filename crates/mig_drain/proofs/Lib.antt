pub mod Common
pub mod Dealing
pub mod Emptying
pub mod ReceiverLaws
pub mod SideCounts
pub mod WorkedCases
