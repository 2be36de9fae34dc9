pub mod Alphabetic
pub mod Letters
pub mod Marked
pub mod Doubting
pub mod Computing
