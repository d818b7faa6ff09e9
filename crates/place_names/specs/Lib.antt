pub mod PlaceFacts
pub mod SectionFacts
