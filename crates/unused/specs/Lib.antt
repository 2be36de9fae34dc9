pub mod Unused
pub mod Looking
pub mod Computing
