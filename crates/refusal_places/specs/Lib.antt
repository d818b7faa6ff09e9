pub mod Sentences
pub mod Spots
pub mod OpcodeMends
pub mod Naming
pub mod Roots
pub mod Explained
