pub mod Utf8
pub mod Windows
pub mod Computing
