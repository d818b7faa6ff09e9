pub mod Keys
pub mod Forms
