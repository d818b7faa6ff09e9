pub mod Words
pub mod Values
pub mod RunValues
pub mod Command
pub mod Bounds
pub mod Requests
pub mod Limits
