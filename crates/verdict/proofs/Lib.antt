pub mod Cases
pub mod Meaning
pub mod VerdictLaws
pub mod VerdictMoving
