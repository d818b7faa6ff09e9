pub mod EmptyProgram
mod SureWords
