pub mod TryingLaws
pub mod PlaceLaws
pub mod MemberSend
