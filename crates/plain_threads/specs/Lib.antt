pub mod Statuses
pub mod Roots
pub mod Holdings
