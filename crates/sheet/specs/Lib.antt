pub mod Sheets
pub mod Computing
