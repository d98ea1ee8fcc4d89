pub mod TicketLayout
pub mod Kind
pub mod Form
pub mod Shape
pub mod Amount
pub mod TicketRefusal
pub mod TicketReading
pub mod TicketWriting
