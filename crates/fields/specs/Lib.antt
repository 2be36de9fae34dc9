pub mod Texts
pub mod Lines
pub mod Wordings
pub mod Worded
pub mod Computing
