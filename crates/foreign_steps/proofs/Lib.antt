pub mod Answering
mod AnswerRows
mod Stepping
