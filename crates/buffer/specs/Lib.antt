pub mod Buffer
pub mod Bytes
pub mod Table
pub mod Computing
