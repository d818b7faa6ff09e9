pub mod Parts
pub mod Ended
