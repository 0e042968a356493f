pub mod Cutting
pub mod Quantizing
pub mod Interpolating
pub mod Even
pub mod Bernoulli
pub mod Categorical
pub mod Indexing
pub mod Mixing
