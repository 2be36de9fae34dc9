pub mod Stretches
pub mod Running
pub mod Characters
