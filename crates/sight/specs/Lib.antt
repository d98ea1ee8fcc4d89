pub mod Sight
pub mod Value
