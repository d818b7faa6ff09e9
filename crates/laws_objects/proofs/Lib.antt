pub mod AtStart
pub mod TaggedTypes
pub mod NoThis
pub mod WorldChanges
pub mod Slots
pub mod ArraySlots
pub mod Buildings
pub mod KeptFrames
pub mod RestoredFrames
pub mod Views
pub mod CountedPhases
pub mod Landing
pub mod Moves
pub mod Operands
pub mod BuiltEffects
pub mod ArrayMoves
pub mod PutPlaces
pub mod ArrayFrames
pub mod EffectOps
pub mod ThrowingFrames
pub mod EnteredFrames
pub mod CalledFrames
pub mod Calling
pub mod ReturnedFrames
pub mod Onwards
pub mod NewFrames
pub mod StoredArrays
pub mod ThreadMoves
pub mod InstructionMoves
pub mod MonitorMoves
pub mod RootMoves
pub mod PhaseMoves
pub mod Places
pub mod LostObjects
pub mod PartBegins
pub mod Events
pub mod WrittenFields
pub mod PlaceWriters
pub mod ColouredFrames
pub mod ElementWriters
pub mod FieldWriters
pub mod StaticWriters
pub mod ShownMonitors
pub mod GuardsKept
mod FrameChanges
mod Unused
mod LosingInits
mod BuiltRuns
pub mod ThrownInits
mod UnreturnedInits
mod FinishedInits
