pub mod Accepted
pub mod Commands
pub mod Expectation
pub mod Owed
pub mod Refused
pub mod Runs
