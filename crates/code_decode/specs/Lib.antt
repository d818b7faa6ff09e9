pub mod Decoding
pub mod Marking
