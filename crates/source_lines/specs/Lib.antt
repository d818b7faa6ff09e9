pub mod SourceLines
pub mod LineTables
pub mod Sources
