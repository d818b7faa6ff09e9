-- The handler rows that cover a pc, of those that begin at another or behind it.
use Rattle.std.specs.Prelude.{◌≡◌, ◌≤◌, IsSomeAnd, ℕ, zero, suc, Bool, true, ◌&&◌, nat_le, List}
use Rattle.std.specs.Prelude.{◌∷◌, drop, length, slice_get}
use Rattle.std.specs.List.{filter}
use Rattle.jvm_types.specs.Verifying.{covers}
use Rattle.jvm_types.specs.declared.program.Row.{Row}

abbrev pub is_picked : ℕ → ℕ → Row → Bool
is_picked pc from handler = covers pc handler && nat_le from handler.start

abbrev pub picked : ℕ → ℕ → List Row → List Row
picked pc from rows = filter (is_picked pc from) rows

-- of the rows from a number on this is the first that is picked, and those from another number on
-- stand behind it
abbrev pub IsNextPicked : ℕ → ℕ → List Row → ℕ → ℕ → Row → Type 0
IsNextPicked pc from rows first behind handler =
    (behind ≤ length rows)
    × (picked pc from (drop first rows) ≡ handler ∷ picked pc from (drop behind rows))

-- the first row is picked, or so many rows are not
abbrev pub AreRowsPassed : ℕ → ℕ → List Row → ℕ → Type 0
AreRowsPassed pc from rows zero =
    IsSomeAnd (slice_get rows 0) (λ handler. is_picked pc from handler ≡ true)
AreRowsPassed pc from rows (suc n) =
    (suc n ≤ length rows) × (picked pc from rows ≡ picked pc from (drop (suc n) rows))
