pub mod Limits
pub mod Machine
pub mod Tree
pub mod Conditions
pub mod Config
pub mod Written
pub mod Tables
pub mod TopologyFields
