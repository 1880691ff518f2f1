pub mod Events
pub mod Heard
pub mod Live
pub mod Sent
pub mod Pieces
pub mod Laws
pub mod FaultText
