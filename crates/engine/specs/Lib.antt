pub mod Directory
pub mod Turns
