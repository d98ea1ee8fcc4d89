pub mod FormByTxid
pub mod ReadingBy
pub mod StepBy
pub mod OldLists
pub mod Renaming
