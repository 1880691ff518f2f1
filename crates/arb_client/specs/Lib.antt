pub mod Sides
pub mod Replies
pub mod Posting
pub mod Collecting
pub mod Calling
pub mod Readings
pub mod Waiting
pub mod Closing
