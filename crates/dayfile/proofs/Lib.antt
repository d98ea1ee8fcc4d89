pub mod Following
pub mod Passing
pub mod RowTelling
pub mod Accepted
pub mod Arriving
pub mod RowsReadBack
pub mod FilePlaces
pub mod ReadBack
