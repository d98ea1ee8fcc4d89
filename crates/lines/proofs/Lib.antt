pub mod Cases
pub mod Digits
pub mod WritingParts
pub mod DigitsFilling
pub mod Numbers
pub mod Longest
pub mod Starts
pub mod ProgramText
