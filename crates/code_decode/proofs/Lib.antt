pub mod Switching
pub mod Sweeping
pub mod Deciding
pub mod PlainSteps
