pub mod AnsCalls
pub mod ChainCalls
pub mod ChainItems
pub mod ChainWords
pub mod RangeCalls
pub mod StoreCalls
pub mod SymbolBits
pub mod SymbolCalls
