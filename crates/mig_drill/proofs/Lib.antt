pub mod FillLaws
pub mod ItemLists
pub mod JobCells
pub mod LineTexts
pub mod StopSteps
pub mod WriteLists
pub mod Common
