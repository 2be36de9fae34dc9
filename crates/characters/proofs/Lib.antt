pub mod Completed
pub mod Counting
