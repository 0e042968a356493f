pub mod AnyEncoder
pub mod AnyWords
pub mod Flagging
pub mod ListCalls
pub mod Pairs
pub mod TakenBack
pub mod Told
