mod GoingOn
mod ReadPlaces
pub mod Attempting
mod StayingOn
mod StayPlaces
mod Instructions
mod Phases
mod Growth
pub mod FreeLocks
pub mod FieldWriters
pub mod OwnBuilders
pub mod LockNoted
pub mod StayingPlaces
pub mod OthersKeep
pub mod Inside
mod Checks
pub mod InsideWords
pub mod InsideMoves
pub mod Playing
pub mod InsideBeside
pub mod InsideTallies
mod CountedActs
mod PlayedDue
mod WholeSections
mod FinishedPlaces
mod DoneSections
mod FinishedSections
mod OutsideEntries
mod Within
mod Looks
mod Counts
mod Runs
mod MarkedEntries
mod Beginnings
mod Failures
mod ComingToEnter
mod InstructionsAhead
mod LateEvents
mod ReachedAhead
mod NeverReturns
mod TornRuns
mod StageFits
mod EventsKeep
mod TurnsKeep
mod ScheduleEnds
pub mod EventSteps
pub mod SameCounts
pub mod MoreSteps
pub mod NextUntried
pub mod EventMoves
pub mod FaithfulRuns
pub mod SomeThread
