pub mod Iban
pub mod Groups
pub mod Strides
