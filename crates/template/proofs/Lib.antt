-- Laws of the definitions, one for each case, that the proofs of this layer cite.
pub mod Topped
pub mod Editions
pub mod Refusing
