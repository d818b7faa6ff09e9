pub mod StepLoops
pub mod PlacesInside
pub mod CodeCount
pub mod Refusals
