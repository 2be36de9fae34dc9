pub mod Levels
pub mod Records
pub mod Layout
pub mod Contents
pub mod Placed
pub mod Computing
