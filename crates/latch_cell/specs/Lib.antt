pub mod Copies
pub mod LatchRules
pub mod LatchSteps
pub mod LatchStages
pub mod LatchCalls
pub mod LatchAttempts
pub mod LatchFilling
pub mod LatchLooks
