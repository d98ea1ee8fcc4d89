pub mod Places
pub mod Runs
pub mod Attributes
pub mod FirstAttribute
pub mod Tags
pub mod Parts
