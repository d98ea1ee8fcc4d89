pub mod Reading
mod Placing
mod Turning
mod Ways
