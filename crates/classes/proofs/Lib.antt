pub mod CheckAnswer
pub mod Bytes
pub mod All
pub mod Unpadding
pub mod Checked
