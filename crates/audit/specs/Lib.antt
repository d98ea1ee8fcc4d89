pub mod History
pub mod Sums
pub mod Orders
pub mod Claim
pub mod Run
pub mod Demand3
