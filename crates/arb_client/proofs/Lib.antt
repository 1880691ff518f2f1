pub mod CallLaws
pub mod SideLaws
pub mod ReadingLaws
pub mod ClosingLaws
