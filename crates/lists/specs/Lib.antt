pub mod Stacks
pub mod Stock
