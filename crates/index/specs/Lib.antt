pub mod RowChains
pub mod LentRows
pub mod Words
