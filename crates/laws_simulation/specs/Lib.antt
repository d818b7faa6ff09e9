pub mod StandsBeside
pub mod StepsBeside
pub mod OutcomeLaws
