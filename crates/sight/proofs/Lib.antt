pub mod Knowing
pub mod Seeing
