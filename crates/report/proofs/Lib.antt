pub mod ReportLaws
pub mod Ending
pub mod AnswerLaws
