pub mod Wordings
pub mod Fields
