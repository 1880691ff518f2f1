pub mod RequestsLaws
pub mod StateLaws
pub mod PostAllLaws
pub mod CoreLaws
pub mod SettlingLaws
