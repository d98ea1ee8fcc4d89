pub mod DigitBounds
pub mod Joining
pub mod Quotient
