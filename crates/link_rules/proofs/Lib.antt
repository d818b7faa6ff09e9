pub mod Files
pub mod FirstRun
