pub mod Cents
pub mod DigitLoop
pub mod Amounts
pub mod BicFields
pub mod TicketStores
pub mod Verdicts
pub mod KeptTells
pub mod Cases
