pub mod Room
pub mod Entry
pub mod Expiry
pub mod Seeking
pub mod Judging
pub mod Taking
pub mod Running
