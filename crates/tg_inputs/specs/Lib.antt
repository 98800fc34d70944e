pub mod Readings
pub mod Calls
pub mod Replies
pub mod Parts
pub mod Outcomes
