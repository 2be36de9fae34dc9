pub mod Measures
pub mod Sinks
pub mod Measured
pub mod Sinking
