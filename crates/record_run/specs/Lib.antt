pub mod Recordings
pub mod Kept
