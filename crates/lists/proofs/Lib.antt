pub mod ListLaws
pub mod StackLaws
pub mod TestLaws
pub mod ToldWalks
