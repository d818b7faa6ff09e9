pub mod FrozenClasses
pub mod KeptThis
