pub mod LoopLaws
pub mod SpanLaws
pub mod MemberLaws
pub mod BarLaws
pub mod FrameLaws
pub mod RecordLaws
