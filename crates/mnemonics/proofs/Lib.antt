pub mod OpcodeLaws
