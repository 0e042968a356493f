mod LaneFilling
mod LaneGroups
pub mod LaneRows
mod LaneThree
mod LaneFour
mod LaneTurns
