pub mod Answers
pub mod Limits
pub mod Messages
pub mod Passes
pub mod Rule
