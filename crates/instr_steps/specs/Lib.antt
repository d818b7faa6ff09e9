pub mod Places
pub mod Going
pub mod Effecting
pub mod Outcomes
pub mod NextPlace
pub mod Phases
