pub mod CodeTheorem
pub mod ReadingOff
pub mod Reaching
pub mod KeptBook
pub mod PrintedDay
pub mod SteppedDay
