mod ApartLaws
pub mod FirstOnes
mod OrderLaws
mod StartLaws
