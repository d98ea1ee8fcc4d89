pub mod OwnStep
pub mod Judgement
pub mod Meaning
