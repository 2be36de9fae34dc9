pub mod Order
pub mod Halving
pub mod Lookup
pub mod Decoded
