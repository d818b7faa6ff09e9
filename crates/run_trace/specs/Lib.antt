pub mod ReportJson
pub mod FailedTurns
pub mod Lines
pub mod EventLines
pub mod Stands
pub mod Owing
pub mod Turns
pub mod Traces
