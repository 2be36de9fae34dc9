pub mod Formats
pub mod Levels
pub mod Computing
