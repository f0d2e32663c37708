pub mod Sheets
pub mod Short
