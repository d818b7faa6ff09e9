pub mod Lists
pub mod Sites
pub mod Movers
pub mod Places
pub mod Accesses
pub mod Phases
pub mod Lifted
pub mod Headers
pub mod Quiet
pub mod Found
pub mod Leads
pub mod WordSteps
pub mod Assembled
pub mod Moves
pub mod NewHeader
pub mod BegunThreads
pub mod Kept
pub mod Start
pub mod LeftStands
pub mod SameTally
pub mod CountedEvents
pub mod TopStores
pub mod LeftSmall
pub mod EventWords
pub mod Sums
pub mod KeptWords
pub mod Reached
pub mod EventFacts
pub mod StartWords
pub mod PartFacts
pub mod Runs
pub mod LockViews
pub mod CountedPhases
pub mod PartOwners
pub mod OwnersStep
pub mod LockWritten
pub mod OwnerWritten
pub mod OwnersEvents
pub mod WordViews
pub mod QuietWords
pub mod PlainMoves
pub mod LockPhases
pub mod OwnerPhases
pub mod EventOwners
pub mod WaitingBits
pub mod CalmMoves
pub mod WaitingStep
pub mod PartWaiting
pub mod StillBits
pub mod EventWaiting
pub mod GrowingRuns
mod RootMoves
mod DoneRoot
mod PartsEvents
mod PartsBegin
mod NoAttempts
pub mod StartThreads
mod PartLawful
pub mod NextThreads
mod ClassInitMoves
mod ClassInitsFirst
mod States
pub mod EventBits
mod EventCounts
mod EventLocks
pub mod HeldOrTried
mod LeftAsTheyWere
mod NextEvents
mod RespectedOwners
mod SafeStates
pub mod InstructionsFollow
mod WorkFalls
mod WorkOfStates
pub mod OrdersRun
