pub mod Batch
pub mod Pieces
