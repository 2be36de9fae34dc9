-- Laws of the stores.
pub mod Stored
