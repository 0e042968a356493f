pub mod Chunks
pub mod Stores
pub mod Built
pub mod LookedUp
