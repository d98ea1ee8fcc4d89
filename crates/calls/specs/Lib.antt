pub mod Calls
pub mod Steps
pub mod Kept
