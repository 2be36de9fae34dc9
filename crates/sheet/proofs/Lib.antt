pub mod Heads
pub mod Reading
pub mod Standing
pub mod Walk
