pub mod Writing
pub mod Testing
pub mod Building
pub mod Laws
