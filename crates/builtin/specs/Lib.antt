pub mod Builtins
pub mod Choices
pub mod Rows
pub mod Computing
