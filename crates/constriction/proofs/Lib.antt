pub mod ChainRefusals
pub mod Trace
pub mod Lists
pub mod Outcomes
pub mod Refusals
