pub mod Cost
pub mod Pairs
pub mod Refusals
