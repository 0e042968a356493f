pub mod Powers
pub mod Starting
