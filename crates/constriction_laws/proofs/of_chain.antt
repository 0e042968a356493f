pub mod ComingBack
pub mod Ending
pub mod FromBack
pub mod Isolated
pub mod Isolating
pub mod ListCalls
pub mod OneBinary
pub mod Stepping
