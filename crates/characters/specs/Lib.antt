pub mod Characters
pub mod Computing
