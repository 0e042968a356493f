pub mod Choosing
pub mod ComingBack
pub mod Exports
pub mod ListCalls
pub mod PairCalls
pub mod ByReads
pub mod Seeking
