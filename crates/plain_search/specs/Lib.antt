pub mod Alone
pub mod Rows
pub mod Nexts
pub mod Searched
