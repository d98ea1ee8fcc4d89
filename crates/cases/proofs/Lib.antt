pub mod Empty
pub mod Positions
