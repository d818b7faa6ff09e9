pub mod Accepted
pub mod LoadFiles
pub mod Modes
pub mod OneFile
pub mod Owed
pub mod PlacedPrints
pub mod Reported
pub mod RunPrints
pub mod Stated
mod Whole
