pub mod SureWords
