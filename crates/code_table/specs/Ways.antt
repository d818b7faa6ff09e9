-- The branch of an instruction as Rust has it, and the pcs that it leads to.
use Rattle.std.specs.Prelude.{ℕ, List, [], ◌∷◌, map}
use Rattle.code_table.specs.declared.ways.Branch.{Branch}
use Rattle.code_table.specs.declared.ways.Branch.TheVariants.{Nowhere, To, Table, Lookup}

abbrev pub pcs_of : Branch → List ℕ
pcs_of Nowhere = []
pcs_of (To to) = to ∷ []
pcs_of (Table otherwise targets) = otherwise ∷ targets.now
pcs_of (Lookup otherwise cases) = otherwise ∷ map (λ c. c.target) cases.now
