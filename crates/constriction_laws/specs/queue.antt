pub mod Concatenated
pub mod Flagging
pub mod Lists
pub mod Outcomes
pub mod Pairs
pub mod Undone
