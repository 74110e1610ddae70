pub mod JobTables
pub mod Stops
pub mod Vacancies
