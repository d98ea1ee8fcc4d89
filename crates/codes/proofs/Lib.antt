pub mod WholeCodes
pub mod Padded
pub mod Cases
pub mod TwoEnds
pub mod IbanBytes
