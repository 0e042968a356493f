pub mod AnsDecode
pub mod AnsEncode
pub mod ChainSplit
pub mod Golomb
pub mod Huffman
pub mod RangeDecode
pub mod RangeEncode
pub mod Store
