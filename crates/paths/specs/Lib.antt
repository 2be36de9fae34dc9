pub mod Paths
pub mod Computing
