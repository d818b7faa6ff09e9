pub mod PcLaws
pub mod ClassOfNew
pub mod LaidOut
pub mod NumbersExact
pub mod MeetLaws
