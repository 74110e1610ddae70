pub mod BestFits
pub mod TightBound
pub mod Common
