pub mod Coding
pub mod Lengths
