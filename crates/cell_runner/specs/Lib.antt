pub mod CellRuns
pub mod HandsOfCell
