pub mod Checks
pub mod Told
pub mod Computing
