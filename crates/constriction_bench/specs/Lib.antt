pub mod Equal
pub mod Starts
