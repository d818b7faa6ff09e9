mod FieldOrder
mod NamesSoFar
