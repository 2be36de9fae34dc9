pub mod Parts
pub mod Sameness
pub mod Writing
pub mod Tables
pub mod Fitting
