pub mod Places
pub mod TransferLayout
pub mod CutReports
pub mod Settlement
pub mod Desk
pub mod Money
