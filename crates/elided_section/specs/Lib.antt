pub mod Checkups
