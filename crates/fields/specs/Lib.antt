pub mod Number
pub mod Text
pub mod UpTo
pub mod Search
pub mod Rows
pub mod Chains
