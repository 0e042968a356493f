mod Decoded
mod EachRow
mod Encoded
mod OneLane
mod RowItems
