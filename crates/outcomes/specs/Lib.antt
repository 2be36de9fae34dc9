pub mod Program
pub mod Computing
