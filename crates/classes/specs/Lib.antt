pub mod CheckAnswer
pub mod Class
pub mod PaddedBytes
