pub mod Braces
pub mod Within
pub mod Computing
