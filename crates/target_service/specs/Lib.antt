pub mod Replies
pub mod Answered
pub mod Limits
pub mod Served
pub mod Found
pub mod Stops
pub mod Progress
pub mod Endings
