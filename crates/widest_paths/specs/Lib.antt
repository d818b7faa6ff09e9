pub mod Searches
pub mod WidestPaths
