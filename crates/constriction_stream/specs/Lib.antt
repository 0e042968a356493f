pub mod CoderLists
pub mod Lists
pub mod Symbols
