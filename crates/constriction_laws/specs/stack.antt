pub mod Exporting
pub mod Lists
pub mod Readings
pub mod Undone
