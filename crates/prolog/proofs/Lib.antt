pub mod Parts
pub mod Closing
pub mod Encodings
pub mod Declared
