-- Laws that proofs of this layer and of the layers above cite.
pub mod Answers
pub mod Asking
pub mod Attempts
pub mod Listing
pub mod Naming
pub mod Spelled
