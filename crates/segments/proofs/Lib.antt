-- Laws that the layers above cite.
pub mod Joining
pub mod Chains
pub mod Fronts
pub mod Growing
