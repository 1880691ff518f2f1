pub mod Places
pub mod Limits
pub mod Views
pub mod Sides
pub mod Steps
pub mod Rule
pub mod Giving
pub mod Lawful
