pub mod LaneCalls
