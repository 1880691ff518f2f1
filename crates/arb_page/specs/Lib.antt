pub mod Seen
pub mod Names
pub mod Views
pub mod Rule
pub mod Steps
pub mod Seats
