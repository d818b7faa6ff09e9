pub mod TextParts
pub mod OrderTexts
pub mod StepFacts
pub mod OutcomeFacts
pub mod Expected
pub mod Findings
pub mod AllFacts
pub mod Telling
