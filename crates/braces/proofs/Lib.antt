-- Laws that the layers above cite.
pub mod Closings
