mod AnsAnswers
pub mod AnsPlaces
mod ChainAnswers
mod ChainFrame
mod ChainPlaces
mod ChainWords
mod Indexing
mod RangeAnswers
mod RangeBuffers
mod StoreAnswers
mod StoreIndex
mod SymbolLists
mod SymbolPlaces
mod SymbolReads
mod SymbolTrees
mod RangeSteps
