pub mod PcTables
pub mod Ways
pub mod NewClasses
pub mod NumberLaws
pub mod RowForms
