pub mod Tagged
