pub mod Template
pub mod Parsing
pub mod Computing
