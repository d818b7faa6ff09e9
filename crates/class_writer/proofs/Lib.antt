pub mod LawProofs
pub mod PartProofs
pub mod TestProofs
