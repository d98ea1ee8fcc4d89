pub mod Batching
pub mod Piecewise
pub mod Longer
