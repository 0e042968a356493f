pub mod Lists
pub mod Outcomes
