pub mod Decoding
pub mod Ranges
pub mod Searching
pub mod Computing
