pub mod Fitting
pub mod SwitchKeys
