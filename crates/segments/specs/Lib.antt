pub mod Computing
pub mod Pool
pub mod Segments
pub mod Sizes
