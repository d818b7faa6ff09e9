pub mod TextLaws
pub mod ListingLaws
pub mod AssembleLaws
pub mod CutLaws
