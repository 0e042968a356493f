pub mod Chunks
pub mod LookedUp
pub mod Stores
