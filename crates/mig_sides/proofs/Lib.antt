pub mod Common
pub mod ClimbLaws
pub mod NearLaws
pub mod ReachLaws
pub mod SearchLaws
pub mod TreeLaws
pub mod WalkLaws
