pub mod Runs
pub mod Computing
