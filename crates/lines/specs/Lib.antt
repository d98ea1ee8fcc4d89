pub mod Written
pub mod Lines
