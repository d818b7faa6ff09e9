pub mod Comes
pub mod Stops
pub mod Lists
pub mod WholeLists
