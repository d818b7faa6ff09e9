mod LawfulStart
mod NextPart
mod NextRuns
pub mod Turns
mod MachineEvents
pub mod ManyEvents
pub mod LoneWorker
mod Reaching
mod RunAhead
mod LessWork
