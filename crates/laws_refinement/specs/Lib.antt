pub mod ElidedSteps
pub mod Entries
pub mod EntryLaws
pub mod TornRuns
pub mod ScheduleOver
pub mod FaithfulRuns
pub mod RunsStand
