pub mod Scoping
pub mod TextNumbers
pub mod FileTexts
pub mod Keys
pub mod MemberTables
pub mod BuiltIn
