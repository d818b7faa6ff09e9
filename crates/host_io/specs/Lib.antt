pub mod Faults
pub mod Shelf
pub mod ListShelf
pub mod Sink
pub mod ListSink
pub mod Reading
pub mod Writing
