pub mod ErrorText
pub mod Loading
pub mod LoadingLaws
pub mod Stages
