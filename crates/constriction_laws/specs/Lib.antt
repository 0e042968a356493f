pub mod stack
pub mod queue
pub mod chain
pub mod symbol
pub mod Bounds
pub mod Exchanges
pub mod Readings
pub mod Outcomes
