pub mod Room
pub mod Weights
