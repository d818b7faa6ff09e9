pub mod Assembling
pub mod Drafted
