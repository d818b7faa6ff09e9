pub mod ConstructionLaws
pub mod GuardLaws
pub mod UnfinishedObjects
