-- Laws that proofs of this layer cite.
pub mod Sequences
pub mod Stretches
pub mod Outcomes
