pub mod Bits
pub mod Computing
