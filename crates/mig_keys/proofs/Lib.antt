pub mod KeyLists
pub mod Common
