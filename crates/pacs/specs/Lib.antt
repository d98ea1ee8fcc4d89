pub mod Named
pub mod Judged
pub mod Walk
pub mod Answering
pub mod Wrongs
pub mod Kept
pub mod Going
