pub mod Answer
pub mod Parts
pub mod Whole
pub mod Limits
