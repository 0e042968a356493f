pub mod Endings
pub mod Isolating
pub mod Lists
pub mod Pairs
pub mod Undone
