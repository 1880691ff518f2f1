pub mod FitLaws
pub mod OpeningLaws
pub mod StepLaws
pub mod SeatLaws
pub mod CountLaws
