pub mod ReachLaws
pub mod FrameLaws
pub mod MarkLaws
