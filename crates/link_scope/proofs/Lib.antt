pub mod EntryLaws
pub mod Files
pub mod KeyLaws
pub mod ListLaws
pub mod RowLaws
pub mod TableLaws
pub mod TakenLaws
pub mod TextLaws
