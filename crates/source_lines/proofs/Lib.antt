mod CarriedLines
mod MethodOrder
mod SourcesSoFar
