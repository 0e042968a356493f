pub mod Codes
pub mod U32
pub mod U16
pub mod Words
