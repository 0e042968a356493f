pub mod Lengths
pub mod Kraft
pub mod Depths
pub mod Least
pub mod Books
mod Rows
