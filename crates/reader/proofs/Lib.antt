pub mod Ends
pub mod TagsRead
pub mod Turns
pub mod Meetings
pub mod Whole
pub mod Alike
