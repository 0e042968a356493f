pub mod Counting
pub mod Symbols
pub mod Indexed
pub mod LookedUp
pub mod Windows
pub mod Lengths
