pub mod CellText
pub mod Report
pub mod Refusal
pub mod MarksText
pub mod Unread
pub mod LoadText
pub mod OrderText
