pub mod FrameLists
pub mod Laid
pub mod RootLists
pub mod KeptAttempts
pub mod ThreadParts
pub mod HeldLists
pub mod Runs
