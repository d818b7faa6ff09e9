-- A text as parts, with a byte between them.
use Rattle.std.specs.Prelude.{ℕ, ◌==◌, List, [], ◌∷◌, ◌++◌, if◌then◌else◌}

-- of the next part there is this so far
abbrev pub parts_from : (between : ℕ) → (part : List ℕ) → List ℕ → List (List ℕ)
parts_from between part [] = part ∷ []
parts_from between part (c ∷ cs) =
    if c == between then part ∷ parts_from between [] cs
    else parts_from between (part ++ c ∷ []) cs
