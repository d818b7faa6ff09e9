mod Accesses
mod HandedThreads
mod ManyEvents
mod OnwardEvents
mod TouchingLoop
mod FramesLoop
pub mod SharedViews
mod HandsApart
pub mod SameHands
mod Reports
mod WholeHands
mod NextThreads
mod NextHands
mod StartHands
pub mod WorkerHands
pub mod Stages
mod CountedSteps
