pub mod ReportLayout
pub mod Ending
pub mod Answer
