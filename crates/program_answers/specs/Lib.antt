pub mod Finish
pub mod Answers
pub mod Delivery
pub mod Unread
