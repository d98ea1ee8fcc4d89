pub mod Bytes
pub mod Tree
pub mod Writing
pub mod WellFormed
pub mod Scanning
