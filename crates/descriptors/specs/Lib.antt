pub mod Signatures
pub mod NameTables
