pub mod Faults
pub mod Visiting
