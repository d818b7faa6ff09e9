pub mod Held
pub mod Visiting
pub mod TagVisits
