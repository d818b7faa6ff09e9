mod Runs
pub mod SmallEffects
mod SmallSteps
