pub mod Writing
pub mod WorkedAlone
pub mod WorkedPairs
pub mod WorkedWaits
pub mod WorkedClasses
pub mod WorkedRuns
pub mod Occurring
pub mod WorkedInstructions
