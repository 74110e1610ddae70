mod Lists
pub mod PutTexts
pub mod Common
pub mod Statuses
pub mod Forms
