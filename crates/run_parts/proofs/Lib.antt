mod StartLaws
pub mod BegunThreads
