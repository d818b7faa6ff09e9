pub mod LocalRuns
pub mod RowLists
pub mod NextLists
pub mod ReachedRows
pub mod TakenRows
pub mod AllFound
