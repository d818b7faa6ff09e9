pub mod Steps
pub mod Deeds
pub mod Small
