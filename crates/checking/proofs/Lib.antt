-- Laws that the proofs of this layer cite.
pub mod Naming
