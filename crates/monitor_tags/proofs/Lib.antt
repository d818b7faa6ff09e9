pub mod StackTags
pub mod VisitLaws
pub mod HandlerLaws
pub mod OneAnswer
mod StayLaws
mod RowsRest
