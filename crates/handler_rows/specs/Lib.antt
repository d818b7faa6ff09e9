pub mod HandlerRows
pub mod Hulls
