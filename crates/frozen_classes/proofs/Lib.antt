pub mod StackLengths
pub mod KeptPlaces
pub mod KeptInside
pub mod ClassFlags
