pub mod Waiting
pub mod Level
pub mod Analyses
pub mod TypePlan
