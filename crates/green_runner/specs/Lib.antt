pub mod Turns
pub mod Passes
pub mod Turning
pub mod Shares
