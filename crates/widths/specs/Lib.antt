pub mod Wide
pub mod Widths
pub mod Fitting
pub mod Computing
