pub mod CutReports
pub mod InUse
