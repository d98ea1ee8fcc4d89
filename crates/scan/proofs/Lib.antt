pub mod Runs
pub mod ByteTests
pub mod AttributeParts
