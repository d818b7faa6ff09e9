pub mod TypeLists
pub mod FrameLaws
pub mod SameFrames
pub mod TakenLaws
pub mod StartedLaws
pub mod OneAnswer
pub mod VisitLaws
mod StayLaws
mod RowsRest
