pub mod Comparisons
pub mod Places
pub mod Computing
