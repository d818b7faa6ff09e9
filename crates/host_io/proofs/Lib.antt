pub mod SoFar
pub mod WrittenFronts
