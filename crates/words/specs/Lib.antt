pub mod Trying
pub mod Within
pub mod Words
pub mod Computing
