pub mod Pushing
pub mod Importing
pub mod Moved
pub mod Coders
pub mod Rows
pub mod BinaryForms
pub mod PositionsKept
pub mod SizesCounted
pub mod WordsShown
pub mod Guards
pub mod Errors
pub mod Buffers
pub mod FirstReads
mod BinaryRows
pub mod ByProduct
pub mod StepCalls
pub mod LaneWords
pub mod Over
