pub mod Passing
pub mod Refusing
