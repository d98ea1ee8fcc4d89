pub mod CheckLaws
pub mod KindBytes
pub mod TicketTelling
pub mod Refusals
pub mod WrittenFields
pub mod ReadsBack
pub mod Cases
