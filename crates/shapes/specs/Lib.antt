pub mod Amounts
pub mod Blank
pub mod Subject
