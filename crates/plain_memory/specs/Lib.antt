pub mod Memories
pub mod Order
