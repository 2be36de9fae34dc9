pub mod Columns
pub mod Shown
