pub mod PlaceTests
pub mod FileLists
pub mod Disks
pub mod FilesSteps
pub mod MemorySteps
pub mod Crashes
pub mod Common
