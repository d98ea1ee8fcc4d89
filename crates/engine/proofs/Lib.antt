pub mod Searching
pub mod SeenEntry
pub mod Expiring
pub mod Passing
pub mod Heading
