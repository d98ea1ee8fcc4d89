pub mod ByParent
pub mod Appending
pub mod Plain
pub mod Noting
pub mod EuroRead
