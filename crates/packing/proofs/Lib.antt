-- Laws that proofs of this layer and of the layers above cite.
pub mod Rooms
