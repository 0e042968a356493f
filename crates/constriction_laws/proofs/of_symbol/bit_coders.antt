pub mod Forms
pub mod Pairs
pub mod Stopping
pub mod Unwritten
pub mod Words
