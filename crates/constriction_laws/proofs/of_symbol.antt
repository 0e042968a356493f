pub mod bit_coders
pub mod least_cost
