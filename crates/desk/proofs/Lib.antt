pub mod DeskRows
pub mod DeskEdges
