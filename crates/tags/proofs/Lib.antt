pub mod Attributes
pub mod TagEnds
