pub mod of_stack
pub mod of_queue
pub mod of_chain
pub mod of_symbol
pub mod ProductBounds
pub mod StepsOfSymbols
pub mod FollowingWords
mod BoundRows
pub mod ListsGiven
pub mod PairCalls
pub mod Refused
pub mod Undoing
