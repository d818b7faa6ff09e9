-- worked runs
mod Agreeing
mod AgreeingLaws
mod Playing
mod PlaysAlone
mod PlaysTorn
mod PlaysFought
mod PlaysWaited
mod PlaysThrown
mod PlaysClasses
mod PlaysLimits
mod PlaysTurns
mod PlaysInstructions
mod Occurrences
-- facts on threads that are written out
mod Standings
mod InSections
mod ReplayTries
mod InConstruction
