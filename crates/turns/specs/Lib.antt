pub mod Index
pub mod Turn
pub mod Facts
pub mod Kept
