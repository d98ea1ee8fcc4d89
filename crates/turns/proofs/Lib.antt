pub mod Index
pub mod Turn
pub mod Facts
pub mod VerdictFitting
pub mod CarryingOut
pub mod TurnEnds
pub mod Done
