pub mod Begins
pub mod Forbids
pub mod Command
pub mod Requests
pub mod Answer
pub mod Tracing
pub mod Parts
