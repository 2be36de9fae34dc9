pub mod Colons
pub mod Texts
