pub mod AlongChain
pub mod Coded
pub mod Comparing
pub mod LentRows
pub mod LittleEndian
pub mod RowsInUse
pub mod RowsOf
