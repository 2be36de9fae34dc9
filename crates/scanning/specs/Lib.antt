pub mod Resting
pub mod Room
