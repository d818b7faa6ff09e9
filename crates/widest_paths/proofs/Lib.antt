pub mod GraphLaws
pub mod SearchLaws
