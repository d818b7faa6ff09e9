pub mod LawfulSteps
pub mod LocalEvents
pub mod StaysLawful
pub mod MarkOrderLaws
mod WordsKept
mod FoundPlaces
mod NearPlaces
mod SwitchKeysHere
mod EventsMore
mod TakenFrames
mod LocalStretches
mod SectionEvents
mod SectionTurns
mod SharedExits
mod LoopRuns
mod OpsInCode
mod OneInstruction
mod SharedElements
mod StretchEvents
mod EntryRuns
