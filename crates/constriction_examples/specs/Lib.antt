pub mod Changing
pub mod Hiding
pub mod Packing
