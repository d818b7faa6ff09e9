pub mod LoadClass
pub mod Loads
