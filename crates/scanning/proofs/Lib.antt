pub mod Rests
pub mod Searched
