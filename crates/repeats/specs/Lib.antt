pub mod Repeats
pub mod Tree
